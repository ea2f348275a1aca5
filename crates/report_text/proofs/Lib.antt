pub mod Lined
pub mod Printed
pub mod Replicas
pub mod SortedSearch

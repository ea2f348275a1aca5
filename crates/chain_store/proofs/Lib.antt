pub mod ChainStates

mod JoinedJournals
mod Later
mod LogOwners

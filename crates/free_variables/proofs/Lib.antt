pub mod RisingLists
pub mod OccurrenceLaws
pub mod FreshVariables
pub mod FormedMembers
pub mod ShutLaws

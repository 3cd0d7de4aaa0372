pub mod Events
pub mod Records
pub mod Needs
pub mod Machine
pub mod Tickets
pub mod Slates
pub mod Boards

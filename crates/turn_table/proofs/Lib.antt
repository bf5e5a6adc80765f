pub mod Crossing
mod Lists
mod Tickets
mod Names
mod Histories
mod Views
mod Turns
mod Seatings
mod Turning

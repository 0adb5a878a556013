mod Fronts
pub mod Joins
mod Looks
mod Payloads
mod Received
mod SlotImages

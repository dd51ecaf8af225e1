-- Refusals in order.
pub mod Checks
pub mod Refusals
pub mod Numbers
pub mod Laws
pub mod Settle
pub mod Told

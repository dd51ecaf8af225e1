-- What stands before every call, and the three events.
pub mod Test
pub mod Guard
pub mod Events
pub mod TestLaws
pub mod EventLaws

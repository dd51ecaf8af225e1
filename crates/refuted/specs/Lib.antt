-- What the definitions shut out: the empty builds, a made-up work count and three leaks; and that demand 3's conditions can be met.
pub mod Build
pub mod Room
pub mod EmptyBuilds
pub mod Alike
pub mod Logins
pub mod Leaks
pub mod NotEmpty

-- Logins, new passwords and who, by computation. A crate of its own, since computing takes seconds and every must-fail edit checks its crate anew.
pub mod Examples

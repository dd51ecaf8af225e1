-- Login, who, set-password and the table test, over one login record, one password table and one password file.
pub mod Strings
pub mod Users
pub mod Login
pub mod Who
pub mod SetPassword
pub mod WorkLaws
pub mod AccountLaws

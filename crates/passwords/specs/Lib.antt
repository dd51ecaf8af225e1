-- The password file, in document 01's words.
pub mod Account
pub mod Walk
pub mod PasswordFile
pub mod AccountLaws
pub mod WalkLaws
pub mod FileLaws
pub mod SameLaws
pub mod ChangeLaws
pub mod MaskLaws
pub mod FoundLaws

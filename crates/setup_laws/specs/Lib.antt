-- What follows about reading a set-up text: comments may be thought of as blanked first, and forty-one turns are enough.
pub mod SameStatements
pub mod CommentsFirst
pub mod Enough

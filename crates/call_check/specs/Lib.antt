-- What the contracts of the quick tests cite; the checks cite `view`.
pub mod Quick

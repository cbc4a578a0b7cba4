-- What the C interface's contracts cite.
pub mod Interface

pub mod Callable
pub mod Lookahead
pub mod Refusals

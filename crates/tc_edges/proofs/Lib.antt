pub mod FecfLemmas
pub mod CltuLemmas
pub mod TmLemmas
pub mod WriteLemmas

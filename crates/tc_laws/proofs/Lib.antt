pub mod LoopsLemmas
pub mod EndsLemmas

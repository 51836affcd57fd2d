pub mod ManyLaw
pub mod Progress
pub mod GrammarProgress
pub mod ExamplesHold

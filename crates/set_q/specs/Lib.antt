pub mod MeaningQ

pub mod MeaningP

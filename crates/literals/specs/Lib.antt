pub mod BitTexts

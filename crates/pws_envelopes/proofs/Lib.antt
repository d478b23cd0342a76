pub mod FieldTexts
pub mod TextsRead

-- What contracts of public calls cite: texts of digits, which JSON stands for which value, objects and their fields.
pub mod Digits
pub mod Forms
pub mod Objects

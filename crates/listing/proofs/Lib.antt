mod Meaning
mod Forms

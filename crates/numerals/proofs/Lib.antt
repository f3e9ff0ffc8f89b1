pub mod Firsts
mod Digits
mod Numbers

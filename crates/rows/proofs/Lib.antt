mod Tests
mod Rows

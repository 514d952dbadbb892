mod Marks
mod Steps
mod Seen
mod Opened
mod Firsts

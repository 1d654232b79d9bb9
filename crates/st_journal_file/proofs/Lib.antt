mod FileLemmas
mod Opened
mod Restart

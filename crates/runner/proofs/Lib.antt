mod Answers
mod CallLines
mod Histories
mod Programs
mod Replies
mod Running
mod Zeros

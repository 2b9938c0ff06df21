mod Answered
mod Numbers
mod Spelled
mod StripsMade

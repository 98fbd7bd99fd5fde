mod Contracts
mod Observed
mod Lent
mod Worked

mod Contracts
mod Observed
mod Worked

mod Grown
mod SoundEffects
mod Folded
mod Outcomes
mod SameParts
mod Found

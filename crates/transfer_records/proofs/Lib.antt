mod Apart
mod Found

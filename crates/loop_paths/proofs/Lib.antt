mod Lists
mod Walks
mod Beginnings

mod Ranking
mod Swapping

mod Growing
mod ReadBack

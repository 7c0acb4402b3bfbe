mod SameLaws
mod DifferenceLaws

mod HexLemmas
mod ImageLemmas
mod LineLemmas

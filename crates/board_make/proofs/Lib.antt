mod MakeLemmas

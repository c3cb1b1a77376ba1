mod NetsLemmas

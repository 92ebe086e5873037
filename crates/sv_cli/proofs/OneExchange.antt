-- What the first fetch of a list of exchanges handed out is one.
use Rattle.std.proofs.Common.{◌≡◌, ℕ, List, ◌∷◌, sym, ◌∙◌}
use Rattle.sv_io.specs.Exchange.{Exchange, fetched, whole, too_long}

module _ (name : List ℕ) (text other : List ℕ) (exchanges rest rest' : List Exchange) where
  pub one_text : exchanges ≡ fetched name (whole text) ∷ rest
      → exchanges ≡ fetched name (whole other) ∷ rest' → text ≡ other
  one_text a b =
      let same : ◌≡◌ {A = List Exchange} (fetched name (whole text) ∷ rest)
      (fetched name (whole other) ∷ rest') = sym a ∙ b in cc

  pub one_rest : exchanges ≡ fetched name (whole text) ∷ rest
      → exchanges ≡ fetched name (whole other) ∷ rest' → rest ≡ rest'
  one_rest a b =
      let same : ◌≡◌ {A = List Exchange} (fetched name (whole text) ∷ rest)
      (fetched name (whole other) ∷ rest') = sym a ∙ b in cc

  pub whole_or_not : exchanges ≡ fetched name (whole text) ∷ rest
      → exchanges ≡ fetched name (too_long other) ∷ rest' → ⊥
  whole_or_not a b =
      let same : ◌≡◌ {A = List Exchange} (fetched name (whole text) ∷ rest)
      (fetched name (too_long other) ∷ rest') = sym a ∙ b in absurd cc

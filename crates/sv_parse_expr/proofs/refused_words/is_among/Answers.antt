use Rattle.std.proofs.Common.{◌≡◌, ℕ, List, [], ◌∷◌, Bor, map, refl, ◌∙◌}
use Rattle.std.specs.List.{list_any}
use Rattle.std.specs.Str.{bytes_eq}
use Rattle.std.proofs.lemmas.Cmp.{nat_list_eq_equiv}
use Rattle.sv_parse_expr.proofs.refused_words.is_among.Goals as goal

-- `==` the other way round
flipped : (ws : List (Bor (List ℕ))) (t : List ℕ) →
    list_any (λ w. bytes_eq w.now t) ws ≡ list_any (bytes_eq t) (map (λ w. w.now) ws)
flipped [] t = refl
flipped (w ∷ ws) t = rw (nat_list_eq_equiv.symm w.now t, flipped ws t) refl

pub returns : goal.returns
returns c = c.contains.ensures.value ∙ flipped c.args.words.now c.args.text.now

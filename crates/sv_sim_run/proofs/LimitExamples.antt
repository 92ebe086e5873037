-- The limits of a stimulus, and the last lines of a text, by computation.
use Rattle.std.proofs.Common.{◌≡◌, ℕ, true, false, ◌<◌, cond, nat_lt, List, [], ◌∷◌, length}
use Rattle.std.proofs.Common.{map, Some, None, codes, take, refl, ap, arith}
use Rattle.std.specs.Prelude.{replicate}
use Rattle.std.specs.Fmt.{digits}
use Rattle.std.proofs.lemmas.Bool.{cond-true, lt-leb, lt-ltb}
use Rattle.std.proofs.lemmas.List.{length-replicate}
use Rattle.sv_texts.specs.declared.stimuli.StimKind.TheVariants.{TooLong, Header, Name, Value}
use Rattle.sv_trace.specs.Forms.{StimForm}
use Rattle.sv_trace.specs.Stimulus.{line_fault, read_front, read_whole}
use Rattle.sv_num.specs.Rules.{rules}
use Rattle.sv_sim_run.specs.declared.endings.Ending.TheVariants.{Done, WrongLine, TooLarge}
use Rattle.sv_sim_run.specs.Simulated.{largest_stimulus, is_within, read_of, ending_of, last_line}

-- ---- limits

-- a line over its limit is too long, whatever its bytes and the lines before it
too_long : (form : StimForm) (before : List (List ℕ)) (line : List ℕ) → 1048576 < length line
    → line_fault form before line ≡ Some TooLong
too_long form before line long =
    cond-true (nat_lt 1048576 (length line)) (Some TooLong) _ (lt-ltb 1048576 (length line) long)

-- such as a line of digits
too_long_threes : (form : StimForm) (n : ℕ) → 1048576 < n
    → line_fault form [] (replicate n 51) ≡ Some TooLong
too_long_threes form n long =
    too_long form [] (replicate n 51) (omega (arith, length-replicate {A = ℕ} n 51, long))

-- of a stimulus over the limit the first bytes count
over_the_limit : (form : StimForm) (bytes : List ℕ) → largest_stimulus < length bytes
    → read_of form bytes ≡ read_front form (take largest_stimulus bytes)
over_the_limit form bytes over = ap
    (λ within. cond within (read_whole form bytes) (read_front form (take largest_stimulus bytes)))
    (lt-leb (length bytes) largest_stimulus over)

-- a small stimulus is within it
within_the_limit : is_within (codes "inputs a\n") ≡ true
within_the_limit = refl

-- a right line there leaves the stimulus too large; a wrong one is told first
large : map (ending_of false) (record { right = codes "inputs a" ∷ []; wrong = None }
    ∷ record { right = codes "inputs a" ∷ []; wrong = Some Value } ∷ [])
    ≡ TooLarge ∷ WrongLine 2 Value ∷ []
large = refl

-- ---- last lines

-- of a stimulus over the limit
large_line : last_line TooLarge None ≡ codes "refused 704 stimulus-size\n"
unfolding digits rules
large_line = refl

-- of each kind of wrong line, also where an order was asked for
wrong_lines : map (λ kind. last_line (WrongLine 2 kind) (Some 1))
    (TooLong ∷ Header ∷ Name ∷ Value ∷ [])
    ≡ codes "refused stimulus input 2 too-long\n" ∷ codes "refused stimulus input 2 header\n"
    ∷ codes "refused stimulus input 2 name\n" ∷ codes "refused stimulus input 2 value\n" ∷ []
unfolding digits
wrong_lines = refl

-- nothing follows a trace without an order
done_line : last_line Done None ≡ []
done_line = refl

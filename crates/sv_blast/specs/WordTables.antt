-- Private: how the code goes. The words of signals in a table, and when they stand in a formula.
use Rattle.std.specs.Prelude.{◌≡◌, ℕ, ◌==◌, List, [], length, IsTrue, slice_index_or, map}
use Rattle.std.specs.Global.{Vec}
use Rattle.std.specs.List.{list_any}
use Rattle.sv_flat.specs.Design.{SignalForm, TypedTree, TypedTrees, FlatDesign}
use Rattle.sv_flat.specs.Values.{signal_width}
use Rattle.sv_flat.specs.Readings.{ReadForm, reads, parts_reads, names_signal}
use Rattle.sv_flat.specs.Reads.{is_read_for}
use Rattle.sv_circuits.specs.Words.{Word}
use Rattle.sv_circuits.specs.Circuits.{IsWord}
use Rattle.sv_encoding.specs.Expressions.{Words}
use Rattle.sv_blast.specs.declared.tables.WordTable.{WordTable}

-- the word of each signal: the row of its number, and the empty word behind the last row
abbrev pub words_of : WordTable → Words
words_of table s = slice_index_or (map (λ row. row.items) table.rows.items) s []

-- the word of a signal stands in a formula of so many variables: a literal for each of its bits
abbrev pub StandsOf : List SignalForm → (variables : ℕ) → Words → (signal : ℕ) → Type 0
StandsOf signals n words s = IsWord n (words s) × (length (words s) ≡ signal_width signals s)

-- the words of the signals that an expression names stand there
abbrev pub StandFor : List SignalForm → (variables : ℕ) → Words → TypedTree → Type 0
StandFor signals n words e =
    (s : ℕ) → IsTrue (names_signal signals e s) → StandsOf signals n words s

-- the words of the signals that parts of a join or replication name stand there
abbrev pub StandForParts : List SignalForm → (variables : ℕ) → Words → TypedTrees → Type 0
StandForParts signals n words es =
    (s : ℕ) → IsTrue (list_any (λ (r : ReadForm). r.signal == s) (parts_reads signals es)) →
    StandsOf signals n words s

-- the words of what is read for a signal stand there
abbrev pub StandForReads : FlatDesign → (variables : ℕ) → Words → (target : ℕ) → Type 0
StandForReads design n words s =
    (t : ℕ) → IsTrue (is_read_for design s t) → StandsOf design.signals n words t

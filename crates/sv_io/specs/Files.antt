-- Files in memory: a map from texts to bytes, and counts for texts.
use Rattle.std.specs.Prelude.{ℕ, List, Option, String, Vec, unwrap_or}
use Rattle.std.specs.declared.alloc.Global.{Global}
use Rattle.std.specs.Option.{option_map}
use Rattle.std.specs.BTreeMap.{BTreeMap, get_by_text}

-- the bytes under a name
abbrev pub files_held : BTreeMap (String Global) (Vec ℕ Global) → List ℕ → Option (List ℕ)
files_held files name = option_map (λ bytes. bytes.items) (get_by_text files name)

-- the count of a name; a name that was never counted has 0
abbrev pub count_of : BTreeMap (String Global) ℕ → List ℕ → ℕ
count_of counts name = unwrap_or (get_by_text counts name) 0

-- Private: how the code goes. How the logic stores the exchanges of a cabinet.
use Rattle.std.specs.Prelude.{◌≡◌, ℕ, true, false, List, [], cond, ◌==◌, refl}
use Rattle.std.specs.Coded.{Coded, code_by, coded×, coded_ℕ, coded_list}
use Rattle.sv_io.specs.Exchange.{whole, too_long, nothing, Exchange, fetched, stored}

-- the kind, the name and the bytes
abbrev Parts : Type 0
Parts = ℕ × (List ℕ × List ℕ)

abbrev to_parts : Exchange → Parts
to_parts (fetched name (whole bytes)) = (0, (name, bytes))
to_parts (fetched name (too_long bytes)) = (1, (name, bytes))
to_parts (fetched name nothing) = (2, (name, []))
to_parts (stored name bytes true) = (3, (name, bytes))
to_parts (stored name bytes false) = (4, (name, bytes))

abbrev from_parts : Parts → Exchange
from_parts p =
    cond (p.0 == 0) (fetched p.1.0 (whole p.1.1))
    (cond (p.0 == 1) (fetched p.1.0 (too_long p.1.1)) (cond (p.0 == 2) (fetched p.1.0 nothing)
    (cond (p.0 == 3) (stored p.1.0 p.1.1 true) (stored p.1.0 p.1.1 false))))

pub from_parts-to_parts : (e : Exchange) → from_parts (to_parts e) ≡ e
from_parts-to_parts (fetched name (whole bytes)) = refl
from_parts-to_parts (fetched name (too_long bytes)) = refl
from_parts-to_parts (fetched name nothing) = refl
from_parts-to_parts (stored name bytes true) = refl
from_parts-to_parts (stored name bytes false) = refl

abbrev pub exchanges_code : Coded (List Exchange)
exchanges_code =
    coded_list (code_by Parts (coded× coded_ℕ (coded× (coded_list coded_ℕ) (coded_list coded_ℕ)))
    to_parts from_parts from_parts-to_parts)

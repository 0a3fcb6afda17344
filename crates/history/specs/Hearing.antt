-- What the ledger hears of a list of turns: of a call its arguments, of a crashed call besides what the medium shows. The outcome of a
-- crashed call is told by server and entry of what a lookup meets after the recover, and never by a value.
use Rattle.std.specs.Prelude.{ℕ, Bool, false, not, ◌&&◌, List, [], ◌∷◌, eqb, Option, None, Some}
use Rattle.search.specs.declared.Place.{Place}
use Rattle.search.specs.Search.{search_for}
use Rattle.deletion.specs.Deletion.{is_met}
use Rattle.recovery.specs.Recovery.{touched}
use Rattle.history.specs.Call.{Turn, plain, crashed_write, crashed_delete, Heard, heard, heard_write, heard_delete}
use Rattle.history.specs.Machine.{State, turned}
use Rattle.history.specs.Ledger.{Ledger, entries_l, used_by, target_l, noted}

-- what a lookup of an id meets
abbrev pub met_by : State → ℕ → Option Place
met_by S id = (search_for S.table S.medium id).met

-- it is entry j of server k
unfoldable pub is_at : ℕ → ℕ → Option Place → Bool
is_at k j None = false
is_at k j (Some p) = eqb p.server k && eqb p.entry j

-- which entry a crashed write had is the ledger's own to say, and nothing of the table is asked for it
unfoldable pub hear : State → Ledger → Turn → Heard
hear S L (plain c) = heard c
hear S L (crashed_write tenant id value n beam) =
    let k = target_l L id in
    let j = used_by L.events k in
    let R = turned S (crashed_write tenant id value n beam) in
    heard_write tenant id value (touched (entries_l L) R.medium k j) (is_at k j (met_by R id))
hear S L (crashed_delete tenant id n beam) = heard_delete tenant id (not (is_met (met_by (turned S (crashed_delete tenant id n beam)) id)))

-- what a ledger hears of a list, each turn after it took the ones before
unfoldable pub hears : State → Ledger → List Turn → List Heard
hears S L [] = []
hears S L (x ∷ turns) = hear S L x ∷ hears (turned S x) (noted L (hear S L x)) turns

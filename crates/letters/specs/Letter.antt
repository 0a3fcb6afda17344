-- The letters of a sheet's lines: S starts a table, and F, G, W, D and L are the calls.
use Rattle.std.specs.Prelude.{ℕ, cond, eqb, Option, None, Some}
use Rattle.tenants.specs.Tenant.{tenant_of}
use Rattle.calls.specs.declared.Call.{Call}
use Rattle.calls.specs.declared.Call.TheVariants.{AddServer, Reweight, Write, Delete, Lookup}

abbrev pub start_letter : ℕ
start_letter = 83

-- the calls have F, G, W, D and L
abbrev pub add_server_letter : ℕ
add_server_letter = 70

abbrev pub reweight_letter : ℕ
reweight_letter = 71

abbrev pub write_letter : ℕ
write_letter = 87

abbrev pub delete_letter : ℕ
delete_letter = 68

abbrev pub lookup_letter : ℕ
lookup_letter = 76

-- each call has one letter, and what is no call has 0
unfoldable pub letter_of : Option Call → ℕ
letter_of None = 0
letter_of (Some (AddServer _)) = add_server_letter
letter_of (Some (Reweight _ _)) = reweight_letter
letter_of (Some (Write _ _ _)) = write_letter
letter_of (Some (Delete _ _)) = delete_letter
letter_of (Some (Lookup _ _)) = lookup_letter

-- the call of a letter and its numbers, where the letter has one: F has a weight; G has a server and its weight; W has an id and its
-- value; D and L have an id. Such a call is the id's own tenant's, and that of an id of 2^30 or more is out of range as the id is.
unfoldable pub call_for : ℕ → ℕ → ℕ → Option Call
call_for letter first second =
    cond (eqb letter add_server_letter) (Some (AddServer first))
    (cond (eqb letter reweight_letter) (Some (Reweight first second))
    (cond (eqb letter write_letter) (Some (Write (tenant_of first) first second))
    (cond (eqb letter delete_letter) (Some (Delete (tenant_of first) first))
    (cond (eqb letter lookup_letter) (Some (Lookup (tenant_of first) first))
    None))))

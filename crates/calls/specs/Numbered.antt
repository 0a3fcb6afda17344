-- A call by its number, and which calls change the servers and which is a write.
use Rattle.std.specs.Prelude.{ℕ, Bool, true, false, cond, eqb, Option, None, Some}
use Rattle.calls.specs.Number.{add_server_number, reweight_number, write_number, delete_number, lookup_number}
use Rattle.calls.specs.declared.Call.{Call}
use Rattle.calls.specs.declared.Call.TheVariants.{AddServer, Reweight, Write, Delete, Lookup}

-- the call of a number, the caller's tenant, a subject (an id or a server) and an amount (a value or a weight); another number is
-- no call
unfoldable pub call_of : ℕ → ℕ → ℕ → ℕ → Option Call
call_of number tenant subject amount =
    cond (eqb number add_server_number) (Some (AddServer amount))
    (cond (eqb number reweight_number) (Some (Reweight subject amount))
    (cond (eqb number write_number) (Some (Write tenant subject amount))
    (cond (eqb number delete_number) (Some (Delete tenant subject))
    (cond (eqb number lookup_number) (Some (Lookup tenant subject))
    None))))

-- add_server and reweight change the servers
unfoldable pub on_servers : Call → Bool
on_servers (AddServer _) = true
on_servers (Reweight _ _) = true
on_servers (Write _ _ _) = false
on_servers (Delete _ _) = false
on_servers (Lookup _ _) = false

unfoldable pub is_write : Call → Bool
is_write (AddServer _) = false
is_write (Reweight _ _) = false
is_write (Write _ _ _) = true
is_write (Delete _ _) = false
is_write (Lookup _ _) = false

-- The number of each call, by which encoded calls name it; any other number is no call.
use Rattle.std.specs.Prelude.{ℕ}

abbrev pub add_server_number : ℕ
add_server_number = 1

abbrev pub reweight_number : ℕ
reweight_number = 2

abbrev pub write_number : ℕ
write_number = 3

abbrev pub delete_number : ℕ
delete_number = 4

abbrev pub lookup_number : ℕ
lookup_number = 5

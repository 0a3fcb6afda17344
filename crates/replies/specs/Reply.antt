-- Replies in document 01's numbers, and the reply that each case of an answer is.
use Rattle.std.specs.Prelude.{ℕ, List, Result, Ok, Err}
use Rattle.replies.specs.declared.Refusal.{Refusal}
use Rattle.replies.specs.declared.Refusal.TheVariants.{UnsoundTable, OutOfRange, NoSuchServer, TooManyServers, ShortMedium, ServerFull, NotBlank, NotFound, ExceedsFree, Corrupt, OtherTenant, BadImage, ShortDestination}
use Rattle.replies.specs.declared.Reply.{Reply}
use Rattle.replies.specs.declared.Written.{Written}
use Rattle.replies.specs.declared.LookupAnswer.{LookupAnswer}
use Rattle.replies.specs.Refusal.{Row, first_of, settle}

-- a refusal carries its number alone, but for lookup's 8 and 10, which carry the servers opened
abbrev pub refused : ℕ → ℕ → Reply
refused n opened = record { refusal = n; server = 0; value = 0; opened = opened; invalidated = 0 }

abbrev pub accepted : Reply
accepted = record { refusal = 0; server = 0; value = 0; opened = 0; invalidated = 0 }

abbrev pub on_server : ℕ → ℕ → Reply
on_server k invalidated = record { refusal = 0; server = k; value = 0; opened = 0; invalidated = invalidated }

abbrev pub found : ℕ → ℕ → Reply
found value opened = record { refusal = 0; server = 0; value = value; opened = opened; invalidated = 0 }

-- the reply of a call with these rows
unfoldable pub reply_by : List Row → Reply → Reply
reply_by rows done = settle rows done (refused (first_of rows) 0)

unfoldable pub number_of : Refusal → ℕ
number_of UnsoundTable = 1
number_of OutOfRange = 2
number_of NoSuchServer = 3
number_of TooManyServers = 4
number_of ShortMedium = 5
number_of ServerFull = 6
number_of NotBlank = 7
number_of NotFound = 8
number_of ExceedsFree = 9
number_of Corrupt = 10
number_of OtherTenant = 11
number_of BadImage = 12
number_of ShortDestination = 13

-- of what is accepted or refused, whatever else its acceptance carries
unfoldable pub check_number : {A : Type 0} → Result A Refusal → ℕ
check_number (Ok _) = 0
check_number (Err r) = number_of r

unfoldable pub reply_of_check : {A : Type 0} → Result A Refusal → Reply
reply_of_check (Ok _) = accepted
reply_of_check (Err r) = refused (number_of r) 0

unfoldable pub reply_of_server : Result ℕ Refusal → Reply
reply_of_server (Ok k) = on_server k 0
reply_of_server (Err r) = refused (number_of r) 0

unfoldable pub reply_of_write : Result Written Refusal → Reply
reply_of_write (Ok w) = on_server w.server w.invalidated
reply_of_write (Err r) = refused (number_of r) 0

unfoldable pub reply_of_delete : Result ℕ Refusal → Reply
reply_of_delete (Ok n) = on_server 0 n
reply_of_delete (Err r) = refused (number_of r) 0

-- what a search answers, and how many servers it opened
unfoldable pub found_or : Result ℕ Refusal → ℕ → Reply
found_or (Ok v) n = found v n
found_or (Err r) n = refused (number_of r) n

unfoldable pub reply_of_lookup : LookupAnswer → Reply
reply_of_lookup a = found_or a.value a.opened

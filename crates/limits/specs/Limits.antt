-- The limits of an archive, each named once.
use Rattle.std.specs.Prelude.{ℕ}

-- servers of a table, and so the numbers in each of its columns
abbrev pub max_servers : ℕ
max_servers = 256

-- entries of a server: document 01's greatest E; no weight is above it
abbrev pub max_capacity : ℕ
max_capacity = 65536

-- 2^24, the sum of 256 weights of 65,536 each, and so the greatest denominator of a fraction
abbrev pub max_sum : ℕ
max_sum = 16777216

-- ids of a batch
abbrev pub max_ids : ℕ
max_ids = 256

-- 2^30: ids, values and salts are below it, and so is the content of a word, which has 30 bits
abbrev pub content_range : ℕ
content_range = 1073741824

-- tenants: their numbers are below it, and a table has a counter for each
abbrev pub tenants : ℕ
tenants = 8

-- 2^27, the ids of each tenant
abbrev pub tenant_range : ℕ
tenant_range = 134217728

-- 2^30 - 1, where a counter of opened servers stops
abbrev pub max_counter : ℕ
max_counter = 1073741823

-- as many burns as any call makes: 2^24 marks, one for each entry, and two words of an entry
abbrev pub all_burns : ℕ
all_burns = 16777218

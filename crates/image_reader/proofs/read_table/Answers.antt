-- `image_reader::read_table` meets its contract: head, servers and counters are the whole table.
use mathlib.Core.Path.{◌≡◌}
use native.Mathlib.Omega.{arith}
use lib.ListN.{length}
use Rattle.lists.proofs.Tests.{true-not-false}
use Rattle.image.specs.Decoding.{count_in}
use Rattle.image_reader.proofs.Tagged.{some_if, none_if, tags_of, tags_fail, last_run, table_read}
use Rattle.image_reader.proofs.read_table.Goals as goal

pub returns-in_err-capacity : goal.returns-in_err-capacity
returns-in_err-capacity c =
    let e = tags_fail c.args.image.now c.args.count _ (λ t. t.capacity) (none_if _ _ c.in_err-capacity.ensures) in
    record { tagged = rw (c.from_residual.ensures, e); table = λ t. absurd (true-not-false t e) }

pub returns-in_err-salt : goal.returns-in_err-salt
returns-in_err-salt c =
    let e = tags_fail c.args.image.now c.args.count _ (λ t. t.salt) (none_if _ _ c.in_err-salt.ensures) in
    record { tagged = rw (c.from_residual-in_err-salt.ensures, e); table = λ t. absurd (true-not-false t e) }

pub returns-in_err-read_servers : goal.returns-in_err-read_servers
returns-in_err-read_servers c =
    let e = tags_fail c.args.image.now c.args.count _ (λ t. t.servers) (none_if _ _ c.in_err-read_servers.ensures.tagged) in
    record { tagged = rw (c.from_residual-in_err-read_servers.ensures, e); table = λ t. absurd (true-not-false t e) }

pub returns : goal.returns
returns c =
    let n : c.args.count ≡ count_in (length c.args.image.now) = omega arith in
    let capacity = some_if _ _ _ c.in_ok-capacity.ensures in
    let salt = some_if _ _ _ c.in_ok-salt.ensures in
    let servers = some_if _ _ _ c.in_ok-read_servers.ensures.tagged in
    record {
      tagged = rw (last_run c.args.image.now c.args.count capacity.0 salt.0 servers.0) c.read_counters.ensures.tagged;
      table = λ t.
          table_read c.args.image.now c.args.count _ _ c.empty.result c.read_servers.new.table c.read_counters.new.counters n capacity.1 salt.1 c.empty.ensures
          (c.read_servers.ensures.table servers.0)
          (c.read_counters.ensures.counters (tags_of c.args.image.now c.args.count t).counters);
    }

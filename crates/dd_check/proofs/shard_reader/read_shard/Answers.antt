use Rattle.std.proofs.Common.{rules}
use Rattle.dd_check.proofs.ShardReads.{valid_read}
use Rattle.dd_check.proofs.shard_reader.read_shard.Goals as goal

pub returns-in-Err : goal.returns-in-Err
returns-in-Err c = record {
  read = tt;
  fault = λ other. record {
    shard = c.in-Some.shard;
    rest = c.in-Some.rest.now;
    rest_is = c.in-Some.ensures;
    faulty = c.in-Err.ensures.fault (search rules);
  };
}

pub is_shard_place-requires : goal.is_shard_place-requires
is_shard_place-requires c = valid_read c.read_checkpoint.result c.in-Some.rest.now c.in-Ok.check c.in-Ok.is c.read_checkpoint.ensures.read

pub returns-then-not-branch-clause-fault : goal.returns-then-not-branch-clause-fault
returns-then-not-branch-clause-fault c other = record {
  shard = c.in-Some.shard;
  rest = c.in-Some.rest.now;
  rest_is = c.in-Some.ensures;
  check = c.in-Ok.check;
  accepted = c.in-Ok.ensures.read;
  refused = λ place. let holds = c.in_ok-is_shard_place.ensures.1 place in let fails = c.if-not-branch.true in cc;
}

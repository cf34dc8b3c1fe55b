use Rattle.tv_value.proofs.field.FieldBinarySerializable.deserialize.Goals as goal

pub returns-in-Ok : goal.returns-in-Ok
returns-in-Ok g c =
    let r = c.in-Ok.ensures.reads.0 in
    record {
      reads = (
        record {
          found = r.found;
          only = r.only;
          error = λ known e cause is. absurd cc;
          shows = λ known e cause is. absurd cc;
          too_long = λ known e cause is. absurd cc;
          ends_early = λ known e cause is. absurd cc;
          no_room = λ known e is. absurd cc;
          errors = r.errors;
          taken = r.taken;
          failures = r.failures;
          stays_known = r.stays_known;
        },
        λ is. cc,
      );
    }

pub returns-in-Err : goal.returns-in-Err
returns-in-Err g c =
    let r = c.in-Err.ensures.reads.0 in
    record {
      reads = (
        record {
          found = r.found;
          only = r.only;
          error = λ known e cause is. r.error known e cause cc;
          shows = λ known e cause is. r.shows known e cause cc;
          too_long = λ known e cause is. r.too_long known e cause cc;
          ends_early = λ known e cause is. r.ends_early known e cause cc;
          no_room = λ known e is. r.no_room known e cc;
          errors = r.errors;
          taken = r.taken;
          failures = r.failures;
          stays_known = r.stays_known;
        },
        λ is. c.in-Err.ensures.reads.1 cc,
      );
    }

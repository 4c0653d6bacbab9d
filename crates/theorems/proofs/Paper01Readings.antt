-- Paper 01, readings that look harmless: its sentences, and below each the theorems that state it, cited from the crate that proves them. What a
-- definition or a contract alone states is in docs/PROMISES.md.

-- "Skipping an unknown bit in an inner struct."

-- Stated in another file: `Demand3.new-by-old`.

-- "Comparing keys by encoded bytes."

-- Stated in other files: `Paper01Values.keys-differ`, `Paper01Values.map_iff`, `Request03.one_spelling`.

-- "Taking a call as over at RESPONSE while a stream is open."

-- Stated in another file: `Demand2.by_order`.

-- "Calling any tail fine."

-- Stated in another file: `Demand2.shown-iff-spelled`.

-- "Ending a call for 30."

-- Stated in other files: `Demand1.refused-kept`, `Demand1.ends-iff`.

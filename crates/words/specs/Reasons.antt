-- The numbers that come back, in words: a text for each number from 0 on, and an empty one for a number that means nothing.
use Rattle.std.specs.Prelude.{List, [], ◌∷◌}
use Prim.Native.String.{String}

-- What a number means.
abbrev pub meanings : List String
meanings =
    "0: accepted" ∷
    "1: more bytes are needed" ∷
    "2: the frame does not begin with AF 01" ∷
    "3: the frame's version is not 1" ∷
    "4: the frame's kind is not 1 to 8" ∷
    "5: the frame's flags are not 0" ∷
    "6: the frame's length is malformed" ∷
    "7: the payload is above 16,384 bytes" ∷
    "8: this side may not send this kind of frame, or there is no such side" ∷
    "9: no method has these identifiers" ∷
    "10: the call is already open" ∷
    "11: the call is not open" ∷
    "12: the identifiers differ from the call's" ∷
    "13: 128 calls are open" ∷
    "14: the frame or the release is not allowed now" ∷
    "15: the call table is not good" ∷
    "16: a frame of the server to a cancelled call, which is dropped" ∷
    "17: the call's stream has had 65,535 elements" ∷
    "18: a tally at 4,294,967,295 would rise" ∷
    "19: the number of tally rows is not that of the methods" ∷
    "20: an item, count or tail exceeds what remains" ∷
    "21: a VarUInt is malformed" ∷
    "22: a bool is neither 0 nor 1" ∷
    "23: a string is not UTF-8" ∷
    "24: a map repeats a key" ∷
    "25: a required field is absent" ∷
    "26: an inner struct sets an unknown bit" ∷
    "27: bytes follow the value" ∷
    "28: a value stands at depth 17" ∷
    "29: there is a payload where none belongs" ∷
    "30: the sheet has too few rows" ∷
    "31: a map of more than 64 pairs" ∷
    "" ∷
    "" ∷
    "" ∷
    "" ∷
    "" ∷
    "" ∷
    "" ∷
    "" ∷
    "40: the shape of the schema file is wrong" ∷
    "41: the schema file has too many rows" ∷
    "42: a type row is at fault" ∷
    "43: a field is at fault" ∷
    "44: a method is at fault" ∷
    "45: the record or the schema file is above 65,536 bytes" ∷
    "46: the type asked for is no struct" ∷
    "47: the writer's table does not extend ours" ∷
    "" ∷
    "" ∷
    "50: the sheet or its tail does not fit" ∷
    "51: a span or the tail lies outside the bytes" ∷
    "52: the output is too small" ∷
    "53: the list of spans is too small" ∷
    "" ∷
    "" ∷
    "" ∷
    "" ∷
    "" ∷
    "" ∷
    "" ∷
    "" ∷
    "" ∷
    "" ∷
    "" ∷
    "65: the shape or the order of the index is wrong" ∷
    "66: the index is for a record of another length" ∷ []

-- What to do about it.
abbrev pub advices : List String
advices =
    "Nothing to do." ∷
    "The frame is not whole. Where a record stops here, it was cut at its end: salvage it. On a connection, wait for more bytes." ∷
    "These bytes are no frame. Where a record stops here, it is damaged: salvage it, and list the copy. On a connection, end it." ∷
    "The sender speaks another version of the format, or the bytes are damaged. Ask the carrier which version it sends." ∷
    "The sender uses a kind that the format has not, or the bytes are damaged. When you write a frame, give it a kind from 1 to 8." ∷
    "The sender sets a flag that the format has not, or the bytes are damaged. Ask the carrier what the flag means." ∷
    "A length has more bytes than it needs, or more than a length may have. Ask the carrier to write lengths in their shortest form." ∷
    "The value is too large for a frame. Ask the sender to split its batch; as the sender, write it as several values." ∷
    "A client sent what a server sends, or a server what a client sends; or the entry's side is neither C nor S. Look at who wrote the entry." ∷
    "Our schema file has no such method. Ask the carrier for its present schema file, and compare the two with arf extends." ∷
    "The call's number was taken for a new call before the old one had ended. The client has to take another number, or release a call that it cancelled." ∷
    "The call has ended, or was never opened, or its opening was refused. Look at the earlier lines of this call." ∷
    "The frame names another method than its call was opened with. The sender has mixed up two calls: tell the carrier both lines." ∷
    "No more calls fit the table. Wait until a call has ended, or release one that was cancelled." ∷
    "The frame comes too early, too late or once too often, or its method has no such stream; or a call to release was not cancelled. Look at the call's earlier lines." ∷
    "Something else than the library has written to the call table, or it was lent too few cells. Start the connection anew with a fresh table." ∷
    "We cancelled the call, and this answer was already on its way. Nothing to do; what it says was not read." ∷
    "No more elements fit this call. End it, and open another one for the rest." ∷
    "The tally row of the method is full. Take the calls that have ended out of it, keep their figures, and call again: nothing has changed." ∷
    "Lend one tally row for each method of the schema file." ∷
    "The payload ends before its value does, or a length in it is wrong. Tell the carrier the frame and the place in its payload." ∷
    "A length or a count has more bytes than it needs, or more than it may have. Ask the carrier to write them in their shortest form." ∷
    "The sender wrote another byte where a truth value belongs. Tell the carrier the frame and the place in its payload." ∷
    "The sender wrote a text in another encoding. Tell the carrier the frame and the place where the text starts." ∷
    "The sender wrote a key twice, so that its value is in doubt. Tell the carrier the frame and the place of the later key." ∷
    "The sender left out a field that our schema file requires. Ask the carrier for its present schema file, and compare the two with arf extends." ∷
    "The carrier has added a field to a struct inside the value, and our schema file cannot tell where it ends. Get the carrier's schema file, and read with both." ∷
    "The payload is longer than its value by our schema file. Ask the carrier for its present schema file, and compare the two with arf extends." ∷
    "Values may lie in each other 16 deep. Ask the sender for a flatter value." ∷
    "A close, a CANCEL or the answer of a method without output has to be empty. The call has ended; tell the carrier the frame." ∷
    "The value is right, and has more rows than were lent. A program calls again with a longer sheet; a listing lends 4,096 rows, and stops here." ∷
    "Ask the sender to split the map. A map of more pairs takes too long to read." ∷
    "" ∷
    "" ∷
    "" ∷
    "" ∷
    "" ∷
    "" ∷
    "" ∷
    "" ∷
    "The file is no schema file, or was cut or changed on its way. Get it anew." ∷
    "A schema file has at most 256 types, 2,048 fields and 256 methods. Ask whoever made it for a smaller one." ∷
    "The place is the number of the type row, counted from 0. Tell whoever made the schema file." ∷
    "The place is the number of the field, counted from 0 over the whole file. Tell whoever made the schema file." ∷
    "The place is the number of the method, counted from 0. Tell whoever made the schema file." ∷
    "Cut a record between two entries, and take its parts one by one. A schema file of this length is none: get it anew." ∷
    "A value is read and written as a struct of the schema file. Ask for the number of a type row of kind 16." ∷
    "The carrier's schema file has lost or changed something that ours has. Ask the carrier for the file that goes with what it sends." ∷
    "" ∷
    "" ∷
    "The rows do not show one value of the type asked for. The place is the row, counted from 0; for a tail, and for a value without rows, it is 0." ∷
    "A row's place and length go beyond the bytes that were lent with the sheet. Lend the bytes that the sheet was read from." ∷
    "Lend a longer output, and call again: nothing was written. No payload has more than 16,384 bytes, and no frame more than 16,412." ∷
    "Lend a longer list, and call again: nothing was written. 4,682 cells are enough for any record." ∷
    "" ∷
    "" ∷
    "" ∷
    "" ∷
    "" ∷
    "" ∷
    "" ∷
    "" ∷
    "" ∷
    "" ∷
    "" ∷
    "The file is no index, or was cut or changed. Make it anew from the record." ∷
    "The record has grown or was cut since its index was made, or the index is another record's. Make it anew." ∷ []

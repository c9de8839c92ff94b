mod Record
